pub mod Demands
pub mod TwoRuns
pub mod GcdZeros
pub mod FigureWords
pub mod FigureChecks
pub mod FigurePolynomials
pub mod FigureSequences
pub mod Figures
