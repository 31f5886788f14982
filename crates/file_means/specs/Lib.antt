-- The statements, in reading order.
pub mod RoundTrip
pub mod BytesAfter
pub mod FileRefusals
pub mod FilesKept
pub mod SecondEdition
