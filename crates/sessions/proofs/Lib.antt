mod RoleSets
