pub mod SonStored
