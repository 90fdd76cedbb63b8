pub mod PlaceNumbers
