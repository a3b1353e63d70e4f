pub mod ClosedFront
pub mod Counted
pub mod Every
pub mod Histories
pub mod InOrder
pub mod Keeping
pub mod KeepingLists
pub mod LegalEntries
pub mod ListArchive
pub mod LocalOptima
pub mod Membership
mod NineCalls
pub mod OwnOrder
pub mod Printed
pub mod Same
pub mod SequentialCalls
pub mod SequentialEnds
pub mod SequentialLawful
pub mod SequentialOnly
pub mod SequentialRuns
pub mod SequentialSound
pub mod SequentialSteps
pub mod SerializedEntries
pub mod Sorted
pub mod Stopped
pub mod Submitted
pub mod ToldFront
pub mod ValueOrder
pub mod ValuesOnce
pub mod ViewsAtStamp
pub mod ViewsFilters
pub mod ViewsInOrder
pub mod ViewsLawful
pub mod ViewsReached
mod WorkedRuns
mod WorkedSearches
mod WorkedSerializations
mod WorkedViews
