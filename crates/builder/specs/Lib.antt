pub mod Marks
pub mod Rendered
pub mod Roles
pub mod SameRoles
pub mod Styling
pub mod Writing
pub mod Written
