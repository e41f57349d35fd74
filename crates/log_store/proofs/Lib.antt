pub mod PutLaws
pub mod StoreLaws
