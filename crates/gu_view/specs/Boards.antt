-- Boards, as contracts see them: a board is its shelves, a token is a place and the view there, and a token belongs to a board.
pub use Rattle.boxcar.specs.Table.{Shelves, Shows, Where}
