pub mod TreeLaws
pub mod SonLaws
pub mod ChainLaws
pub mod SoundLaws
