pub mod RealName
pub mod Resolution
pub mod Rights
