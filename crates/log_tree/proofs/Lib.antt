pub mod RootLaws
pub mod StepLaws
pub mod TreeLaws
pub mod Views
