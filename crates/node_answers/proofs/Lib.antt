mod Sayings
mod DeskDeeds
