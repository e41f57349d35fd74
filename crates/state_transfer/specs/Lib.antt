pub mod Stand
pub mod Fetch
pub mod Got
pub mod Walk
