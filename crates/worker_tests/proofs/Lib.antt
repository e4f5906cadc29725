pub mod FreeHouse
