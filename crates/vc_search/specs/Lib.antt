pub mod Found
pub mod FoundLaws
pub mod Courses
pub mod CourseLaws
pub mod Explored
pub mod Followed
pub mod Weights
