-- The theorems of specs/, each in a file of its statement's name, after the laws that it goes by.
pub mod StandLaws
pub mod GivesLaws
pub mod PartTrip
pub mod BoardTrip
pub mod ReadFine
pub mod RoundTrip
pub mod TakenLaws
pub mod LeadsLaws
pub mod ReadLeads
pub mod ReachedRead
pub mod HoldsRefused
pub mod FileRefusals
pub mod BytesAfter
pub mod KeptLaws
pub mod SecondEdition
pub mod FilesKept
