-- The definitions that the contracts cite.
pub mod Handed
pub mod Printed
pub mod Typed
