pub mod CountLaws
pub mod KeyedSums
pub mod NameSoftLaws
pub mod OrderLaws
pub mod RebootLaws
pub mod SoftLaws
pub mod SumLaws
pub mod TreeLaws
