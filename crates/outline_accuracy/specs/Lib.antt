pub mod OutlineAreas
