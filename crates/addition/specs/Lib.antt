pub mod RoleSets
