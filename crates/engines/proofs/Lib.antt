pub mod Laws
pub mod Order
pub mod Effects
pub mod Rounds
pub mod Alone
pub mod Submissions
pub mod SampleCount
pub mod Drawn
