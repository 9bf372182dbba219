pub mod ServiceEffects
