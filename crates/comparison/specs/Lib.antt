pub mod Exports
pub mod JointExports
pub mod SinCosExports
