-- Rule 8.6: the panel's verdict (`Panel`). For the code: what it relies on (`Asked`).
pub mod Panel
pub mod Asked
