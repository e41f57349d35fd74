pub mod Call
pub mod Cred
pub mod Reply
pub mod Request
