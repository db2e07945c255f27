pub mod AddsOnly
pub mod AllGo
mod Anywhere
pub mod AtMost
mod Begun
mod Beside
mod Changed
mod ComesFrom
mod Ended
mod Ends
mod FilePut
mod Filed
pub mod FolderNames
pub mod FolderReads
mod GoodTables
pub mod Ids
mod ImagesOpen
mod Kept
mod KeepsSection
pub mod Live
pub mod Lived
mod LivedCalls
mod LivedRolls
mod Looking
mod LooksFirst
mod MayGo
pub mod MostOpens
pub mod NamesKept
pub mod NextNames
pub mod NoteRuns
pub mod Noted
pub mod Numbering
pub mod OnDisk
mod OpensWell
mod OpenedAgain
pub mod OpenedWhole
mod OtherFiles
pub mod Outcomes
mod PutBeside
mod PutTables
mod ReadLog
mod Ready
mod Recovered
mod Recovery
mod Rolls
pub mod SegmentFiles
mod SegmentsGo
mod Settles
mod ShownNotes
mod Stays
mod TablesYet
pub mod Torn
mod TornReads
mod Untouched
pub mod WasLeft
