pub mod LastOverride
