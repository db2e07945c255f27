pub mod Counting
pub mod Dropping
pub mod HullRows
pub mod StoreDrops
pub mod WorkedOrder
pub mod WorkedTables
