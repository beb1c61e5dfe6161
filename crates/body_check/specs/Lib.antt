pub mod BodyCheck
