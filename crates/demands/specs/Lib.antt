-- The statements, in reading order.
pub mod EveryCallComesBack
pub mod AsTheModelSays
pub mod LargerNeverChanges
pub mod Starred
pub mod InAnyOrder
pub mod WhateverIsPushed
pub mod OneAnswer
