-- Lines that rise, and lines that the filter takes.
pub mod Rises
pub mod Orders
pub mod Taken
