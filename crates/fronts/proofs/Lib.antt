mod Fronting
