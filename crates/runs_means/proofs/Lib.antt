-- The theorems of specs/, each in a file of its statement's name, after the laws that it goes by.
pub mod ExtendLaws
pub mod AnswerLaws
pub mod LongerRuns
pub mod LookMeans
pub mod FollowLaws
pub mod CameLaws
pub mod MeetingLaws
pub mod LowestLaws
pub mod RunMeans
pub mod SpentLaws
pub mod Courses
pub mod TurnLaws
pub mod OrderLaws
pub mod RunOrderLaws
pub mod SingleLaws
pub mod Orders
pub mod KeptSets
