-- What the code works on and keeps, as its proofs speak of it; no definition of a public clause
-- reads it but through what a value stands for.
pub mod Views
pub mod LineFaults
pub mod FitViews
pub mod Shaping
pub mod ShapeCauses
pub mod ShapeViews
pub mod Tallies
pub mod ChildFaults
pub mod Origins
pub mod NodeViews
pub mod Tables
