mod Past
mod Parts
