mod Shelving
