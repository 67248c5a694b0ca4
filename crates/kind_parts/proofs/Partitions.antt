-- partitions, chains and maps: what steps at their words make of them, and walks along them
pub mod Relinking
pub mod Repartition
pub mod Remapping
pub mod Reparted
pub mod Walked
pub mod Words
pub mod Laws
pub mod Seeking
