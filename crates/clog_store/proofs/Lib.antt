mod FiledTo
mod FolderBegins
pub mod FolderEnds
mod FolderFails
mod FolderPuts
mod FolderSyncs
mod Fronts
mod NoteBehind
mod NoteCuts
mod NoteDue
mod NoteEnded
mod NoteFrom
mod NoteGoes
pub mod NoteGrows
mod NoteHeld
mod NoteLeaves
pub mod NoteLent
mod NoteLogged
mod NoteNext
pub mod NoteParts
mod NotePasses
mod NoteReaches
mod NoteRun
mod NoteSettled
mod NoteStands
mod NoteSynced
mod NoteTakes
mod OpensSince
mod OrderDrops
mod OrderPuts
mod OrderSyncs
pub mod SectionEnds
mod SegmentLengths
mod SeventhFile
mod States
mod StoreBeside
pub mod StoreFiles
mod StoreFolds
mod StoreImages
pub mod StoreKept
mod StoreLetGo
mod StorePuts
mod StoreSeen
mod StoreTaking
