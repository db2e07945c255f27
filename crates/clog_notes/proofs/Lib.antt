pub mod TableSets
pub mod WholeNotes
