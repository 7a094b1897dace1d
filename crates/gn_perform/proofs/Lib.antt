mod Evaluations
mod Performs
