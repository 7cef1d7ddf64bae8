pub mod Words
pub mod StateLaws
pub mod OwnCoins
