mod Adding
mod Fronts
