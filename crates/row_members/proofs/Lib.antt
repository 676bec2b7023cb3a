pub mod EightPlaces
