-- Laws of directive lists, of what guides a shown step, and of where cells stand.
pub mod DirectiveLists
pub mod Boards
pub mod Guides
pub mod Counts
pub mod CellPlaces
