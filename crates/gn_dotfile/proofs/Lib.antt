pub mod NamesInTurn
