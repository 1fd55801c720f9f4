pub mod Inside
pub mod Lines
pub mod Schedules
pub mod Statuses
pub mod Text
