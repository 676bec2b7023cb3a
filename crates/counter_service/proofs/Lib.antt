pub mod Below
mod Parts
