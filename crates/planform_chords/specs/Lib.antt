pub mod PlanformChords
