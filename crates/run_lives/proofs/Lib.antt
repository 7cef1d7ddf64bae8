mod AnyFailure
mod LifeLaws
mod Spelled
mod Words
