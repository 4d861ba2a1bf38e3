pub mod Clearance
pub mod Firsts
pub mod AcceptedLists
pub mod Propers
