pub mod InOrder
pub mod Listed
pub mod JoinLaws
pub mod JoinedSix
pub mod InList
