pub mod Steps
pub mod LeafSteps
pub mod PackSteps
pub mod RoomSteps
