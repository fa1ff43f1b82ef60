mod Limits
