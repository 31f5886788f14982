-- The theorems of the front page, each in a file of its statement's name, and the laws behind the first of them.
pub mod StandsLaws
pub mod TabledLaws
pub mod EventLineLaws
pub mod EveryCallComesBack
pub mod AsTheModelSays
pub mod LargerNeverChanges
pub mod Starred
pub mod InAnyOrder
pub mod WhateverIsPushed
pub mod OneAnswer
