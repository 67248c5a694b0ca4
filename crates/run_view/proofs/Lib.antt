mod Piping
mod Tabling
