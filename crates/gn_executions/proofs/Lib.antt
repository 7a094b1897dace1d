pub mod BuildFiles
pub mod ExecutionTrees
pub mod Variables
pub mod DotfileNames
pub mod AloneFiles
