pub mod RunRefusals
