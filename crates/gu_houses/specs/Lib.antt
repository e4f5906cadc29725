pub mod BookHouse
pub mod Receipts
pub mod SeatHouse
pub mod SharedHouse
