pub mod NoteSteps
pub mod StoreNames
pub mod StoreTakes
pub mod WorkedNames
